pub mod Block
pub mod Directions
pub mod Means
pub mod Smoothing
pub mod Slopes
pub mod Predictions
pub mod Near
