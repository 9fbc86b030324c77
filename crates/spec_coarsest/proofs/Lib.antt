mod Heads
mod Codes
mod Strings
mod Short
