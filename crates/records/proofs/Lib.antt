pub mod Anew
pub mod Making
pub mod Answers
pub mod CommandList
pub mod Widths
pub mod Parts
pub mod Modes
pub mod Pasted
