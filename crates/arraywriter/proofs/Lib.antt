pub mod Measuring
pub mod Checking
pub mod Given
pub mod Parts
pub mod Only
