pub mod Made
pub mod Bands
