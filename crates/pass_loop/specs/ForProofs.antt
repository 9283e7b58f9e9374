-- For proofs alone: no contract of a public call rests on what stands in this folder.
pub mod Borrowed
pub mod DoneLaws
pub mod EachLaws
pub mod EndsLaws
pub mod FirstRefusalLaws
pub mod HeldItems
pub mod HeldLaws
pub mod NamedLaws
pub mod PassLaws
pub mod PutLaws
pub mod RefusedLaws
pub mod Starting
pub mod StepLaws
