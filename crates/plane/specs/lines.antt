pub mod Line
pub mod Met
pub mod OnBox
pub mod Finite
pub mod laws
