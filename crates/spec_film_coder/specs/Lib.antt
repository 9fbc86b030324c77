pub mod Pictures
pub mod Sound
