-- Laws that only proofs use.
pub mod Rest
pub mod Neighbours
pub mod Used
pub mod Cursor
pub mod Fills
pub mod WalksFill
pub mod NeighboursLoop
pub mod Joined
