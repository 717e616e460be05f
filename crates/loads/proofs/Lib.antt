pub mod Judging
pub mod Refused
pub mod Place
pub mod Keeps
pub mod Halves
pub mod Bytes
pub mod Halved
pub mod Cleared
