pub mod Decimals
pub mod Lines
pub mod Only
pub mod Failing
