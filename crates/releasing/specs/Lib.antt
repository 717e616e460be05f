pub mod Release
pub mod Judged
pub mod Look
