pub mod Stating
pub mod Only
