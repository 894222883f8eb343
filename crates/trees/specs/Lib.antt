pub mod Numbers
pub mod Trees
