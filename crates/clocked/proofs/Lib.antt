pub mod Run
pub mod Clocking
pub mod SameRefusals
pub mod Acting
pub mod Whole
pub mod Settling
