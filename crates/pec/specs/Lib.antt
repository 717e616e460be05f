pub mod Remainder
pub mod ByShifts
pub mod Words
pub mod Spikes
