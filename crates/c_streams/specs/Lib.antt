pub mod ForProofs
pub mod Parser
pub mod Readers
pub mod Sysex8
pub mod Usb
