-- Laws that only proofs use.
pub mod Put
pub mod Slices
pub mod Within
