-- Laws that only proofs use.
pub mod Admits
pub mod Early
pub mod Lists
pub mod LeftmostTable
pub mod BuildRoom
pub mod BuildAdmission
pub mod Outlined
pub mod Fans
