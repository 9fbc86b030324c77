pub mod Filled
pub mod Averages
pub mod Products
