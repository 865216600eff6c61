-- Laws that only proofs use.
pub mod Before
pub mod Earlier
pub mod Led
