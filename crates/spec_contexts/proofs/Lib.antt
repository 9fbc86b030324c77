pub mod Known
mod Examples
