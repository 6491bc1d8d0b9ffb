pub mod Given
pub mod Checking
pub mod Marking
pub mod Stated
