pub mod HandleValues
pub mod PartedValues
