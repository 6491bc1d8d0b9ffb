pub mod Rules
pub mod Sound
pub mod Scaled
pub mod Stated
