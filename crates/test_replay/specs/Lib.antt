pub mod Replayed
pub mod Judged
pub mod Tallied
pub mod AsStored
pub mod laws
pub mod words
