-- Laws that only proofs use.
pub mod Reaches
pub mod Rings
pub mod Differences
