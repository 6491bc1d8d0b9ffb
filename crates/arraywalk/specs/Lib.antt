pub mod Walk
pub mod Parts
pub mod Standing
pub mod Stated
