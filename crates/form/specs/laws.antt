-- Laws that only proofs use.
pub mod Fill
pub mod Feed
pub mod Register
pub mod Run
pub mod Mesh
pub mod Cut
pub mod Tail
pub mod Exact
pub mod Place
pub mod NumberAt
pub mod Longer
pub mod Lists
