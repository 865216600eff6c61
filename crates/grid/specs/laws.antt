-- Laws that only proofs use.
pub mod Ring
pub mod Pairs
pub mod Same
pub mod Machine
pub mod Bounds
