-- Laws that only proofs use.
pub mod Parts
pub mod Close
pub mod Roundings
pub mod Operations
pub mod Magnitudes
pub mod Far
pub mod Errors
pub mod BothSides
pub mod Sides
