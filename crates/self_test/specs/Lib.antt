pub mod Counts
pub mod ForProofs
pub mod Generator
pub mod Played
