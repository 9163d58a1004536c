mod Verdict
pub mod Checks
