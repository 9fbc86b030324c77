pub mod Syntax
pub mod Numbers
pub mod Elements
pub mod Levels
pub mod Inter
pub mod Blocks
pub mod Sequences
