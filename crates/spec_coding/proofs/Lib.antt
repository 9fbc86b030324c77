pub mod Going
pub mod Passing
pub mod Choosing
pub mod Groups
mod Examples
pub mod Reporting
