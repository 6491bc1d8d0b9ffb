pub mod Listing
pub mod Packing
pub mod Only
