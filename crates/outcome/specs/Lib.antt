pub mod Letters
pub mod Refusing
pub mod Stated
