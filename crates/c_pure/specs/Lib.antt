pub mod Names
pub mod Packets
pub mod Scaling
pub mod Sysex8
pub mod Texts
pub mod Words
