-- Definitions of the hosts.
pub mod Numbers
pub mod Parts
pub mod Texts
