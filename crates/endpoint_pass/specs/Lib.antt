pub mod Answering
pub mod ForProofs
pub mod Held
pub mod Laws
pub mod Options
