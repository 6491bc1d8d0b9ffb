pub mod Closing
pub mod Chunks
pub mod Progress
pub mod Only
pub mod Stating
