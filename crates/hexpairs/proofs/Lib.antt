pub mod DigitPairs
pub mod Spelling
pub mod Only
