-- Laws that only proofs use.
pub mod Next
pub mod WalkSteps
pub mod Walks
pub mod Total
pub mod Table
pub mod Border
pub mod Facts
pub mod Rings
pub mod Verdicts
pub mod Occurs
pub mod Degree
pub mod Closed
pub mod Refusing
