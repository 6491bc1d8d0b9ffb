pub mod Line
pub mod Feeding
pub mod Passing
pub mod Stated
