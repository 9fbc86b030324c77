pub mod Sums
pub mod Bounds
pub mod Clip
pub mod Decimals
pub mod Sizes
pub mod Blocks
