-- Laws that only proofs use.
pub mod Scannable
pub mod Scan
