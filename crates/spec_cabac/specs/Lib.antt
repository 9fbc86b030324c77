pub mod Bins
pub mod Code
pub mod Decoder
pub mod Law
