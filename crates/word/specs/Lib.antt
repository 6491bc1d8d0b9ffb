pub mod Digits
pub mod Bytes
pub mod Many
pub mod Stated
