pub mod Lengths
pub mod Stating
pub mod Only
