pub mod Doubling
pub mod Tables
