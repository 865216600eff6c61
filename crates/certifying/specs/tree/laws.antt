-- Laws that only proofs use.
pub mod Orders
pub mod Nodes
pub mod Search
