pub mod Halved
pub mod Halves
pub mod InOrder
pub mod Outcomes
