pub mod Record
pub mod Commands
