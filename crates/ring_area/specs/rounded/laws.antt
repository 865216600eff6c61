-- Laws that only proofs use.
pub mod Sizes
pub mod Halves
pub mod Patterns
pub mod Limbs
