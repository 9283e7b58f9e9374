-- For proofs alone: no contract of a public call rests on what stands in this folder.
pub mod Joined
