pub mod Sets
pub mod Output
pub mod Pcm
pub mod Passed
pub mod Pictures
pub mod Macroblocks
pub mod Frames
