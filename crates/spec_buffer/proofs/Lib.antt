pub mod Numbers
pub mod Holds
pub mod Least
mod Examples
