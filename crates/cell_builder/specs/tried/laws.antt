-- Laws that only proofs use.
pub mod Early
pub mod HullAndEdgeTries
pub mod OneTry
pub mod RingShort
pub mod TriedRings
