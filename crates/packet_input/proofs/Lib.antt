pub mod CuttingLaws
pub mod FoundLaws
pub mod NextLaws
pub mod OneWord
pub mod PacketLaws
