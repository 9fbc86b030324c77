pub mod Sizes
pub mod Units
pub mod Kept
pub mod Jobs
pub mod Pictures
pub mod Coders
pub mod Lending
