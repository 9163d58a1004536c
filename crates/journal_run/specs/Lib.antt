pub mod Journal
pub mod Running
