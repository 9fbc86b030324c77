pub mod Started
pub mod Blocks
