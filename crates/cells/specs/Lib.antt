-- The root of the crate's definitions.
pub mod Printed
pub mod Square
pub mod laws
pub mod SquarePrints
pub mod listing
pub mod answer_text
