-- Laws that only proofs use: those that a wrong edit of a definition breaks first.
pub mod Puts
pub mod Reused
