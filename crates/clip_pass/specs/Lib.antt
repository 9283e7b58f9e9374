pub mod Clipping
pub mod Cutting
pub mod Ends
pub mod Laws
pub mod Lines
