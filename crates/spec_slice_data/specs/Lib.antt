pub mod Decoding
pub mod Slice
pub mod Coding
