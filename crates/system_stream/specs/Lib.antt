pub mod Cut
pub mod Joined
pub mod Joining
pub mod Layout
pub mod Lend
pub mod Parts
pub mod Texts
