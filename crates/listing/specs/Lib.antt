pub mod Listed
pub mod Packed
