-- Definitions of the machine.
pub mod Instructions
pub mod Shelves
pub mod Ints
pub mod Faults
pub mod Host
pub mod Cells
pub mod Machine
