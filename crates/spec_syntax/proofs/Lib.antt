pub mod Walks
pub mod Numbers
pub mod Elements
pub mod Levels
pub mod Examples
pub mod Inter
pub mod Blocks
pub mod Ends
