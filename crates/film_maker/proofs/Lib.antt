mod Cutting
mod Examples
mod Filling
mod Heads
pub mod Numbers
