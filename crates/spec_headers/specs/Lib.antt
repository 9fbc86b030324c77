pub mod Heads
pub mod HeadFields
pub mod MessageFields
pub mod Allowed
pub mod HeadReaders
pub mod MessageReaders
