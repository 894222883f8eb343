pub mod Rest
pub mod Ahead
pub mod Forms
pub mod Reading
pub mod Parsing
pub mod Refusals
