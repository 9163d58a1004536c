pub mod Laws
pub mod Words
pub mod Tables
pub mod Stored
