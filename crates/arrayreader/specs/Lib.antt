pub mod Reading
pub mod Again
pub mod Stated
