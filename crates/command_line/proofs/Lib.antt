pub mod ClapLemmas
mod Folds
