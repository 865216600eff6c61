-- Laws that only proofs use.
pub mod Headed
pub mod FreshCorners
pub mod Bounds
pub mod Rings
pub mod Room
