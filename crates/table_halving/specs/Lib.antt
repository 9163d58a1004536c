pub mod Halving
pub mod Lookup
pub mod Order
pub mod Outcomes
