pub mod Kept
pub mod Pcm
mod Examples
