pub mod Readings
pub mod Gathering
