pub mod Storing
pub mod Zeroing
