pub mod Tasks
pub mod Drawn
pub mod Pools
