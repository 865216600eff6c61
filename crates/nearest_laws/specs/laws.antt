-- Laws that only proofs use.
pub mod Area
pub mod Signs
pub mod Orbit
pub mod Strip
pub mod Meet
pub mod Turns
pub mod Sides
pub mod Outside
pub mod Ready
pub mod Least
pub mod Circle
pub mod Exactly
pub mod Runs
pub mod Units
