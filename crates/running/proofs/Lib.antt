-- Proofs of runs.
pub mod Elements
pub mod Runs
pub mod Settling
