pub mod Octet
pub mod Draw
pub mod Octets
pub mod Front
pub mod Stated
