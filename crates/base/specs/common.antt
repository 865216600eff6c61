pub mod Pick
pub mod Decide
pub mod Count
pub mod Binary64
pub mod Refusals
pub mod laws
