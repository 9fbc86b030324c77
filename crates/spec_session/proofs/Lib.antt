pub mod Settling
pub mod Promised
pub mod WholeFilms
pub mod Placing
pub mod Grouping
pub mod Growing
pub mod Cutting
pub mod Ranges
pub mod Refusing
mod Examples
