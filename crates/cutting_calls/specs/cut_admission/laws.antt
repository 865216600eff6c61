-- Laws that only proofs use.
pub mod CutRoom
pub mod CutAdmission
