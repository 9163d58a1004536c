pub mod Probed
