pub mod Planes
pub mod Reached
pub mod Quarters
pub mod Rounds
