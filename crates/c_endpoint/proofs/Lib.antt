pub mod PacketBlockLaws
pub mod TakenLaws
