-- Laws that only proofs use.
pub mod And
pub mod Decide
pub mod Count
pub mod Stores
pub mod Refusals
