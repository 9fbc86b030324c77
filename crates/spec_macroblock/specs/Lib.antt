pub mod Modes
pub mod Macroblock
pub mod Strings
pub mod Records
