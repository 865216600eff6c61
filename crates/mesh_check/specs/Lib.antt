pub mod border
pub mod degrees
pub mod fan
pub mod pairing
pub mod table
pub mod whole
