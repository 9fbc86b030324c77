pub mod Weak
pub mod Tables
pub mod Folds
pub mod Intra
pub mod Rooms
pub mod Shown
pub mod Crops
pub mod Filtered
