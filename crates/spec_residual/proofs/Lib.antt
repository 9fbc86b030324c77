pub mod Bounds
pub mod Listed
mod Examples
