pub mod Outcomes
mod Passing
