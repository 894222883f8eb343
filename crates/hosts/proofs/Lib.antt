-- Proofs of the hosts.
pub mod Renders
pub mod Spellings
pub mod Words
