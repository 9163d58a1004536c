pub mod Keeping
pub mod Leaving
pub mod Outcomes
pub mod Writing
