pub mod Messages
pub mod Verdicts
