pub mod Stripes
pub mod Made
pub mod Inside
