pub mod States
pub mod Near
pub mod Increments
