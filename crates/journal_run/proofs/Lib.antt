pub mod Repeating
pub mod Longer
pub mod Streaming
pub mod Playing
pub mod Stopping
pub mod Running
pub mod Calling
