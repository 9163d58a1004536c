pub mod Regions
pub mod InDomain
