pub mod CodeBits
pub mod Flags
pub mod Loaded
pub mod Examples
pub mod Repeated
pub mod OwnFlags
pub mod OwnCodes
