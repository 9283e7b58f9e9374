pub mod ForProofs
pub mod Packets
pub mod Placed
pub mod Written
