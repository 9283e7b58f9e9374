pub mod ByteReader
pub mod Cut
pub mod CutLaws
pub mod ForProofs
pub mod Reading
pub mod SoFar
