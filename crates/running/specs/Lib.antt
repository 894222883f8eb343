-- Definitions for a run: what the calls that carry it out make of the machine.
pub mod Stacks
pub mod Settling
pub mod Calculations
pub mod Running
pub mod Standings
