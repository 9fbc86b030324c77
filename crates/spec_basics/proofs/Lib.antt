pub mod DecimalLaws
pub mod SadLaws
