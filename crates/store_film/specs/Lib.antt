pub mod Faults
pub mod Pictures
pub mod Runs
pub mod Leaving
