pub mod Taking
pub mod Stated
