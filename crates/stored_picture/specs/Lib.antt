pub mod Rooms
pub mod Sizes
