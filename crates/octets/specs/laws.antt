-- Laws that only proofs use.
pub mod Bytes
pub mod Orders
pub mod Wrote
pub mod Lines
pub mod PutLe
pub mod Get
