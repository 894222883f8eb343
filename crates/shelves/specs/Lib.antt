-- Definitions of the shelves: the byte form of code.
pub mod Groups
pub mod Parts
pub mod Bytes
