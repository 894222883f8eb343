-- Proofs of the shelves.
pub mod Codes
pub mod Digits
pub mod Views
pub mod Laws
