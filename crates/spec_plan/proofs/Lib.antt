pub mod Follow
pub mod Places
pub mod Lists
pub mod Held
mod Examples
