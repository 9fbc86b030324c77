pub mod Pictures
pub mod Samples
pub mod Stored
