-- Laws that only proofs use.
pub mod Meshes
pub mod Walks
pub mod InGiven
pub mod Refused
pub mod AfterRefusal
pub mod FirstBroken
pub mod Written
pub mod Answering
pub mod PlaneBounds
pub mod Leaving
pub mod Walking
pub mod Hollow
pub mod Wrapping
