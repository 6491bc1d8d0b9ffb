pub mod Keeping
pub mod Pieces
pub mod Stating
pub mod Only
