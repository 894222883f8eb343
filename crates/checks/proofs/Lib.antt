pub mod Choices
pub mod DepthViews
pub mod Held
pub mod NamesViews
pub mod Room
pub mod Scopes
pub mod Steps
