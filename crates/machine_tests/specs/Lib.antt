-- Definitions of the samples.
pub mod Sample
