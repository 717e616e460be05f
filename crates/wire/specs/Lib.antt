pub mod Order
pub mod Windows
