-- Laws that only proofs use.
pub mod Ends
pub mod Tallies
pub mod Buckets
pub mod Inserting
pub mod Walking
pub mod Fair
pub mod Numbers
