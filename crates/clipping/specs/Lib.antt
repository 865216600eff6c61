pub mod EdgeOutcome
pub mod RingWalk
pub mod laws
pub mod corners
pub mod edges
pub mod interior
