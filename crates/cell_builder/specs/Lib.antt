-- The root of the crate's definitions.
pub mod AdmittedBuild
pub mod Start
pub mod laws
pub mod rings
pub mod finish
pub mod placed
pub mod tried
pub mod turned
