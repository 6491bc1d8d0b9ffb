pub mod Walking
pub mod Going
pub mod Finding
pub mod Stating
pub mod Only
