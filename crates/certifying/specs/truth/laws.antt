-- Laws that only proofs use.
pub mod Flat
pub mod Equal
pub mod Order
pub mod Boxed
pub mod Cancelling
pub mod Leaving
pub mod Nearest
pub mod OnAnswer
