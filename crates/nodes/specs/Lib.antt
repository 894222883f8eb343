pub mod Rooted
pub mod Shows
pub mod Subtrees
