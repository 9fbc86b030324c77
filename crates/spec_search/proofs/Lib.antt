pub mod Ranks
pub mod Places
pub mod WindowLaws
