pub mod Making
pub mod Holding
pub mod Filling
pub mod Moving
pub mod Joining
pub mod Whole
pub mod Seating
