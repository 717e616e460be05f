pub mod Fits
pub mod Pointed
