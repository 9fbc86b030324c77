pub mod Steps
pub mod OfRecords
mod Examples
