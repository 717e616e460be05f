pub mod Table
pub mod Refusals
pub mod Heads
pub mod Places
