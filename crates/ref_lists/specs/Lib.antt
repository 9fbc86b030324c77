pub mod Held
pub mod Entries
pub mod Named
pub mod Stored
