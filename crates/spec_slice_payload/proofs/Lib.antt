pub mod Examples
pub mod Layers
pub mod Growing
pub mod Carried
pub mod InRange
pub mod Allowed
