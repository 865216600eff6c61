-- Laws that only proofs use.
pub mod Leads
pub mod Round
pub mod Tracing
pub mod Deciding
