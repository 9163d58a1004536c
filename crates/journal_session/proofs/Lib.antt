pub mod Matching
pub mod Regions
