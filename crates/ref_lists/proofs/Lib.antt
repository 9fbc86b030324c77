pub mod Sorting
pub mod Entering
pub mod Decoders
pub mod Differing
pub mod Moving
pub mod Storing
pub mod Listing
