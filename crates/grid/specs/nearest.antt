-- The root of the crate's definitions.
pub mod Judged
pub mod Promise
pub mod One
pub mod Yes
pub mod laws
