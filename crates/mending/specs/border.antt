-- The root of the crate's definitions.
pub mod Loop
pub mod Answer
pub mod laws
pub mod HullTheorem
