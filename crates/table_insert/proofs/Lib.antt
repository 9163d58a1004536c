mod Carrying
pub mod Inserted
