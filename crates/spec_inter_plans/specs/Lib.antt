pub mod Found
pub mod InterPlans
