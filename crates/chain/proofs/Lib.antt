pub mod Room
pub mod Outcome
pub mod Refused
pub mod FrameKeeps
