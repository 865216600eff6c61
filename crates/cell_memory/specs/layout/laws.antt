-- Laws that only proofs use.
pub mod Compacted
pub mod Overwritten
pub mod Regions
pub mod RegionsKept
pub mod Rooms
