pub mod Working
pub mod Only
