pub mod Settings
pub mod Encodings
pub mod Groups
pub mod Outputs
pub mod Answers
