-- Laws that only proofs use.
pub mod Crowd
pub mod BothEnds
pub mod BackWalk
pub mod Walking
pub mod Placing
