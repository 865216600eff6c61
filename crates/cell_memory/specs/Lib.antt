pub mod layout
pub mod outputs
pub mod staging
