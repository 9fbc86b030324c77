pub mod Clamped
pub mod Samples
pub mod Pictures
pub mod Margins
pub mod Edges
pub mod Placed
pub mod Stripes
