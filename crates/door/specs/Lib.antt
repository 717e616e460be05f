pub mod Answers
pub mod Volts
