pub mod Register
pub mod Known
pub mod Lengths
pub mod View
pub mod Noting
pub mod Shifting
pub mod Leaving
