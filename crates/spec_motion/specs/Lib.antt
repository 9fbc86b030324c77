pub mod Neighbours
pub mod Prediction
pub mod Skip
pub mod Direct
