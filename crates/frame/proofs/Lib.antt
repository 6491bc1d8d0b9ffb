pub mod Keys
pub mod Only
