pub mod ForProofs
pub mod Lines
pub mod Open
pub mod Refusal
