pub mod Counts
pub mod Only
