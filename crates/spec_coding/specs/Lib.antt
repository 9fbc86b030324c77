pub mod Encoding
pub mod Trials
pub mod Laws
pub mod Report
