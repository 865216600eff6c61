-- Laws that only proofs use.
pub mod Inking
pub mod Ended
pub mod Numbers
pub mod Sites
pub mod Sheets
