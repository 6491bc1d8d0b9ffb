pub mod Given
pub mod FieldNumbers
pub mod Writing
pub mod Only
