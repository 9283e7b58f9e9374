pub mod ForProofs
pub mod Names
pub mod Profiles
