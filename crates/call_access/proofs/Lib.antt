mod Found
pub mod Stepping
