-- The root of the crate's definitions.
pub mod Printed
pub mod One
pub mod Enough
pub mod Owners
pub mod whole_sites
pub mod corners
pub mod line
