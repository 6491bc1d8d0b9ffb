pub mod Blocks
pub mod Passing
pub mod Ruling
pub mod Walking
pub mod Only
pub mod Stating
