pub mod Heading
pub mod Ones
pub mod Sending
pub mod Beginning
pub mod Only
pub mod Judging
pub mod Stating
