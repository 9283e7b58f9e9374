pub mod ForProofs
pub mod Words
