-- Laws that only proofs use.
pub mod Answers
pub mod Fields
pub mod Firsts
pub mod Points
pub mod Shapes
