mod Closing
pub mod Removed
