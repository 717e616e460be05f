pub mod Magnitudes
pub mod Codes
pub mod Extremes
pub mod Running
pub mod Sizes
pub mod Summaries
pub mod Examples
