pub mod Moved
pub mod Oldest
