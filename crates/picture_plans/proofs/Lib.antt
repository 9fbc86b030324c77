pub mod Sharing
pub mod Planning
pub mod Asking
pub mod Counting
