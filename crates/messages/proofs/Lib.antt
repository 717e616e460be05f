pub mod Heads
pub mod Sent
pub mod Judged
pub mod Struck
pub mod Examples
