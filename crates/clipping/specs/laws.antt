-- Laws that only proofs use.
pub mod EdgeCases
pub mod EdgeOutcome
pub mod ReversedRing
pub mod RingWalk
