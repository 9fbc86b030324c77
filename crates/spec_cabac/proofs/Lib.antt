pub mod Odd
pub mod Ranges
pub mod Replies
pub mod Law
pub mod Examples
