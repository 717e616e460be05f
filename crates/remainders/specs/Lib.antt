pub mod ByTable
pub mod CheckWords
