pub mod Answering
pub mod Only
pub mod Stating
