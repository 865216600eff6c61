-- The root of the crate's definitions.
pub mod laws
pub mod Linear
pub mod Nearest
pub mod Ends
pub mod Owners
pub mod OnGrid
pub mod OnHull
pub mod Admitted
pub mod Profile
pub mod Boxes
pub mod Square
pub mod SquareOnGrid
