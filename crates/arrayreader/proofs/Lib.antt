pub mod Answers
pub mod Stating
pub mod Only
