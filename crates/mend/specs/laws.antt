-- Laws that only proofs use.
pub mod Words
pub mod Room
pub mod Heads
pub mod Text
pub mod Shows
pub mod ReadForm
