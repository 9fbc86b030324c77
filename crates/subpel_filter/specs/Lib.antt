pub mod Rows
pub mod Near
pub mod Predicted
pub mod Halves
