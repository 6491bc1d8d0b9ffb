pub mod Entries
pub mod Given
pub mod Fitting
pub mod Checking
pub mod Only
pub mod Stating
