pub mod Decoded
pub mod Strings
pub mod Slices
pub mod Examples
