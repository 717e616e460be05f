pub mod Switches
pub mod Table27
pub mod Outputs
pub mod OwnBits
