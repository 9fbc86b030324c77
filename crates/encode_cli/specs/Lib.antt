pub mod Names
pub mod Told
pub mod Storing
pub mod Encoding
pub mod Trials
pub mod Doing
pub mod Alike
