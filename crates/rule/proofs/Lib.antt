pub mod Signed
pub mod Ruling
pub mod Certain
pub mod Constants
pub mod Scales
pub mod Only
pub mod Stating
