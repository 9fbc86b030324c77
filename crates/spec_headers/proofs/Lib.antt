pub mod HeadLaws
pub mod OtherHeads
pub mod AllHeads
pub mod MessageLaws
mod WrittenExamples
mod Examples
