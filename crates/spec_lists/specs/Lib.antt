pub mod References
pub mod Heads
pub mod Orders
pub mod Lists
pub mod Reordering
pub mod Colocated
