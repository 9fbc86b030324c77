pub mod Allowed
pub mod Layer
pub mod Reading
pub mod Writing
pub mod Slices
