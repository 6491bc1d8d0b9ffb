pub mod Octet
pub mod Drawing
pub mod Octets
pub mod Counts
pub mod Front
pub mod Stating
pub mod Walks
pub mod Only
