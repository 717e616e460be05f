pub mod Verdicts
pub mod Check
pub mod Ports
pub mod Parts
