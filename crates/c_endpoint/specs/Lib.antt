pub mod Asked
pub mod Numbers
pub mod Opening
pub mod Packets
pub mod Profiles
