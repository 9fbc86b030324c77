pub mod Blocks
pub mod Forward
pub mod Inverse
pub mod Levels
pub mod Rescaled
