pub mod Bounded
pub mod Buffers
pub mod Coded
