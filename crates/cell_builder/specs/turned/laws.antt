-- Laws that only proofs use.
pub mod IdleRing
pub mod IdleSites
pub mod Due
pub mod Onward
pub mod OneTurn
pub mod HullTries
pub mod Quiet
pub mod Leaving
pub mod TryLoops
pub mod Passing
pub mod Retrying
pub mod Marking
