pub mod Branches
pub mod Breaks
pub mod Checked
pub mod Declares
pub mod Depth
pub mod Names
pub mod Numbers
