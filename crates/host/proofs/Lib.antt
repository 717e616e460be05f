pub mod Payloads
pub mod Judging
pub mod FrameFor
