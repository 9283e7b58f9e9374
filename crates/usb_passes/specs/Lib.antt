pub mod Events
pub mod ForProofs
pub mod Laws
pub mod Options
pub mod Pack
pub mod Split
