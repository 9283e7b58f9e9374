-- For proofs alone: no contract of a public call rests on what stands in this folder.
pub mod BackMeans
pub mod DownMeans
pub mod Fronts
pub mod RaisedMeans
pub mod UpMeans
