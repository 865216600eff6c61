-- Laws that only proofs use.
pub mod InsideWalk
pub mod RingCopy
