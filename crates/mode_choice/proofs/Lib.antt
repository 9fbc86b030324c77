pub mod Naming
pub mod Bytes
pub mod Finding
pub mod Listing
pub mod Parting
pub mod BothLists
pub mod RowPlans
