pub mod Ends
pub mod Promise
pub mod Steps
pub mod One
pub mod EndsTheorem
pub mod UsedEnds
pub mod laws
