pub mod Rows
pub mod Deciding
pub mod Cells
pub mod OwnBits
pub mod Putting
pub mod Shown
pub mod Vectors
