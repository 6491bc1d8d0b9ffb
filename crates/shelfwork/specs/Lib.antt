pub mod Work
pub mod Stated
