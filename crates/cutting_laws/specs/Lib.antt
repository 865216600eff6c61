pub mod theorem
pub mod ringed
pub mod fills
pub mod fit
pub mod convex
