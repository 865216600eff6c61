-- The root of the crate's definitions.
pub mod AtExit
pub mod Answers
pub mod Verdict
pub mod laws
