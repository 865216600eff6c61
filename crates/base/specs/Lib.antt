pub mod common
pub mod numbers
pub mod refusal
