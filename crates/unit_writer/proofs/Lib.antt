pub mod Lengths
mod Making
pub mod Joining
