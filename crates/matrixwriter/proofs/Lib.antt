pub mod Spelled
pub mod Putting
pub mod Parts
pub mod Only
