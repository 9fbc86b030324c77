pub mod Behind
pub mod Named
pub mod Outputs
pub mod Spots
