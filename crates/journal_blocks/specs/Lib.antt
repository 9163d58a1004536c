pub mod Advances
pub mod Loop
