pub mod ByteBlocks
pub mod Down
pub mod Encoded
pub mod Exclusives
pub mod PacketBlocks
pub mod Pieces
pub mod Up
