-- Laws that only proofs use.
pub mod Squares
pub mod Gaps
pub mod Units
pub mod Tests
pub mod Order
pub mod Rounding
pub mod Bounds
pub mod Sizes
pub mod Tested
pub mod SqrtSizes
pub mod SquareSums
pub mod WholeRoots
pub mod Moving
pub mod Patterns
pub mod Signs
pub mod UnitBounds
pub mod OneUnits
