pub mod Given
pub mod Entries
pub mod Parts
