pub mod Meaning
pub mod Spelling
pub mod Table
pub mod Machine
pub mod Decoded
pub mod Offsets
