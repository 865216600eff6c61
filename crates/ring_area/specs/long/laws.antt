-- Laws that only proofs use.
pub mod Amounts
pub mod Puts
pub mod Lifted
pub mod Carries
pub mod Differences
