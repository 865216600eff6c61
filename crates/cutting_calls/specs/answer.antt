-- The root of the crate's definitions.
pub mod AnswerWhole
pub mod AnswerCertified
pub mod laws
