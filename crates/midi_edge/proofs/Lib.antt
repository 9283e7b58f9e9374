pub mod Accepting
pub mod Tried
