pub mod Digits
pub mod Filled
pub mod Whole
pub mod Words
pub mod Gathered
pub mod Written
pub mod Only
pub mod Stating
