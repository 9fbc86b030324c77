pub mod Apart
pub mod Chunks
pub mod BlockRows
pub mod TapLanes
