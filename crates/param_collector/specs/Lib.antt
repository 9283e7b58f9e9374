pub mod Control
pub mod Holding
pub mod Indexes
pub mod Keeps
pub mod Msbs
