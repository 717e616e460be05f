pub mod Hops
pub mod Operations
