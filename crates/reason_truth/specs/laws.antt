-- Laws that only proofs use.
pub mod Named
pub mod Nothing
pub mod Unread
pub mod Unbroken
