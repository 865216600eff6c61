pub mod counts
pub mod answers
