pub mod NearLaws
pub mod Gathered
pub mod PartLaws
pub mod AvailLaws
