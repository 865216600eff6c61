pub mod Exact
pub mod Sign
pub mod AreaSign
pub mod Finite
pub mod laws
