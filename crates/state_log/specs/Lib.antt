pub mod Changes
pub mod Dropped
