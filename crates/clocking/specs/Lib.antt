pub mod Clock
pub mod Bytes
