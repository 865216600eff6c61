pub mod Places
pub mod CertificateTrue
pub mod laws
