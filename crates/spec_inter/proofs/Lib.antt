mod Examples
pub mod Halving
