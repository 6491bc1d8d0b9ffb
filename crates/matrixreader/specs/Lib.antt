pub mod Reading
pub mod Stated
