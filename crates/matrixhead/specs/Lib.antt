pub mod Beginning
pub mod Parts
pub mod Judging
pub mod Stated
