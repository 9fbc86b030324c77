pub mod Lines
pub mod Strengths
pub mod Edges
pub mod Macroblocks
pub mod Pictures
