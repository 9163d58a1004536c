pub mod Flat
pub mod Requesting
pub mod Translating
pub mod Resetting
pub mod Fetching
pub mod Setting
