pub mod EventBytes
pub mod Events
pub mod ForProofs
pub mod Laws
pub mod Rehearse
