pub mod Along
pub mod ByTable
