pub mod Only
pub mod Fitting
