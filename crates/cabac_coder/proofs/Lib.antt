pub mod OneByte
pub mod Doublings
pub mod Advance
pub mod Runs
