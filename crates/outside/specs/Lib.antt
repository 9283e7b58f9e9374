pub mod Outside
pub mod Runs
