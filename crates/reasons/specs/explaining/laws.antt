-- Laws that only proofs use.
pub mod Asked
pub mod Placed
pub mod Early
pub mod Built
pub mod Answered
pub mod Why
pub mod ExplainBuild
