pub mod Moved
pub mod Heads
pub mod Pictures
pub mod Laws
pub mod Films
pub mod Planned
