pub mod Near
pub mod Parts
pub mod Partitions
pub mod Derived
pub mod Inter
pub mod Records
pub mod InRange
pub mod Small
