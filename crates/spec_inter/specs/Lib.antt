pub mod Taps
pub mod Places
pub mod Luma
pub mod Chroma
pub mod Blocks
pub mod Halves
