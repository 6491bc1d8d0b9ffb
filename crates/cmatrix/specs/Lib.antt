pub mod Format
pub mod Fields
pub mod Writing
pub mod Inside
