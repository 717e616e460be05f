pub mod Answers
pub mod Events
