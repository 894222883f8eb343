pub mod Alike
pub mod Scanning
pub mod Stand
pub mod Ways
pub mod Levels
pub mod Whole
