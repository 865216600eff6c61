pub mod Box
pub mod Rules
pub mod Finite
