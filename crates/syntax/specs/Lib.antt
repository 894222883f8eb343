pub mod Shape
pub mod Grammar
pub mod Parse
pub mod Law
pub mod View
pub mod Source
pub mod Examples
