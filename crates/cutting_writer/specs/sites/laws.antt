-- Laws that only proofs use.
pub mod Anyhow
pub mod Sheets
