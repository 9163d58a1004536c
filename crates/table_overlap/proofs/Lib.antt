pub mod Passing
mod Ways
