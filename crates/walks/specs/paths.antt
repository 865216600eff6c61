-- The root of the crate's definitions.
pub mod Path
pub mod PathNeeds
pub mod PathRule
pub mod PathTheorem
pub mod Restart
pub mod Square
pub mod laws
