pub mod Lengths
pub mod Stated
