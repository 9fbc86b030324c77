pub mod Plans
pub mod Records
pub mod Given
pub mod Strings
pub mod Left
