pub mod Exact
pub mod Held
pub mod BoxTwice
pub mod Near
pub mod NearTrue
pub mod Rows
pub mod laws
