pub mod Numbers
pub mod Addressed
pub mod Writing
