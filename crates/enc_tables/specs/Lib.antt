pub mod Arithmetic
pub mod Choice
pub mod Kinds
pub mod Plans
pub mod Records
pub mod Steps
