pub mod Firsts
pub mod Windows
pub mod Rounds
pub mod Near
pub mod Adding
