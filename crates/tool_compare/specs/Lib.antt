pub mod Bins
pub mod Partitions
pub mod Searches
