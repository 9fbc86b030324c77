pub mod Leasts
pub mod Bests
pub mod Insides
pub mod Planned
pub mod Known
