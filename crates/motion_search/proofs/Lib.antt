pub mod Costs
pub mod Parts
pub mod Going
pub mod Quartering
