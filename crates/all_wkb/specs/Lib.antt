pub mod Promise
pub mod Steps
pub mod One
pub mod PartsTheorem
pub mod laws
