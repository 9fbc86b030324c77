pub mod Planned
pub mod Levels
pub mod Tasks
pub mod Coarsest
