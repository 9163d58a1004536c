mod None
pub mod Cleared
