pub mod Lengths
pub mod Rewriting
