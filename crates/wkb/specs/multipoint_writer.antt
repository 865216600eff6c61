-- The root of the crate's definitions.
pub mod Promise
pub mod One
pub mod RoundTrip
pub mod laws
