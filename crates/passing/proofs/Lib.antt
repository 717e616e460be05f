pub mod Silent
pub mod Lent
pub mod Judged
pub mod HandedOut
pub mod Laps
pub mod Beaten
pub mod Done
