pub mod Scan
pub mod Least
pub mod Window
pub mod Refine
