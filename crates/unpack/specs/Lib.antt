pub mod Unpacking
pub mod Found
pub mod Cells
