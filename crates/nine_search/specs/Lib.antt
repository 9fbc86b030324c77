pub mod Partitions
pub mod NineSearches
pub mod NinePlanes
pub mod NineRefined
pub mod Runs
