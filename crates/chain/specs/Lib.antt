pub mod Frame
pub mod Judged
pub mod Numbers
