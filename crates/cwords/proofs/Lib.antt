pub mod Scaling
pub mod Answers
pub mod Only
