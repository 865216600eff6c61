-- Laws that only proofs use.
pub mod Promise
pub mod BuildAnswer
pub mod Build
pub mod Left
