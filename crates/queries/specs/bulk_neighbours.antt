pub mod Promise
pub mod Steps
pub mod One
pub mod RoomTheorem
pub mod PartsTheorem
pub mod laws
