pub mod ForProofs
pub mod Scaling
