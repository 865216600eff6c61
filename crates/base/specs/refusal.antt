-- The root of the definitions on refusals.
pub mod Number
pub mod laws
