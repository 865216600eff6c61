-- Laws that only proofs use.
pub mod Grid
pub mod Sums
pub mod Axes
pub mod Plus
pub mod LeftOut
