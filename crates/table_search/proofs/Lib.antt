pub mod Halves
pub mod Ordered
