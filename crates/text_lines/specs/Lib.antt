pub mod Fields
pub mod ForProofs
pub mod ListingLines
pub mod PacketLines
pub mod Room
pub mod Voice1Lines
pub mod Voice2Lines
pub mod VoiceLines
