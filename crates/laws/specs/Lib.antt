pub mod Bits
pub mod Tables
pub mod Rows
pub mod Counts
