pub mod Room
pub mod Order
pub mod Attached
mod GoingOn
mod Passing
