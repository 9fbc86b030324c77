pub mod Modes
pub mod IntraPlans
