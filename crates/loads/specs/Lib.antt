pub mod Load
pub mod Numbers
