pub mod Records
pub mod Stored
