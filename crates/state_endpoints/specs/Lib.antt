pub mod Changes
pub mod Search
