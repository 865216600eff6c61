-- Laws that only proofs use.
pub mod Quad
pub mod Pairs
pub mod Sites
pub mod Rule8
pub mod Rule9
pub mod Rewired
pub mod Reach
pub mod Rule10
pub mod Least
pub mod NewEntries
pub mod NewTable
