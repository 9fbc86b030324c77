pub mod Meanings
pub mod Leaving
pub mod Trying
pub mod Deciding
pub mod Workers
