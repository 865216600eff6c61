pub mod FormBox
pub mod Fits
