pub mod asking
pub mod entries
