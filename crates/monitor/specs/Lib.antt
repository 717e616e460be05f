pub mod Effects
pub mod Spares
