pub mod Numbers
pub mod Runs
pub mod ReadsBack
pub mod Snapshots
pub mod Spikes
pub mod Missed
pub mod Growth
pub mod Lpcm
