pub mod Reading
pub mod Counting
pub mod Calling
