pub mod Bins
pub mod Through
