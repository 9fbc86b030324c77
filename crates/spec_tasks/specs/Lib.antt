pub mod Entries
pub mod Choosing
pub mod Given
