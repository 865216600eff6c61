-- The root of the crate's definitions.
pub mod Printed
pub mod One
pub mod Enough
pub mod laws
pub mod site_words
pub mod line
