pub mod Addresses
pub mod Going
