-- Laws that only proofs use.
pub mod Bounds
pub mod Splits
pub mod Products
pub mod Spans
pub mod Rings
pub mod Settles
