-- Laws that only proofs use.
pub mod Nearest
pub mod Used
pub mod WholePath
pub mod HopLoop
pub mod PathLoops
pub mod PathNeeds
pub mod Parts
pub mod EachSite
