pub mod Rebuilt
mod Examples
