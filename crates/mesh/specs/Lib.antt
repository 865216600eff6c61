-- The root of the crate's definitions.
pub mod Mesh
pub mod Hull
pub mod Accepted
pub mod Rules
pub mod Faults
pub mod ByNumber
pub mod laws
pub mod WalkTheorem
pub mod Rings
pub mod ThriceTheorem
pub mod Square
