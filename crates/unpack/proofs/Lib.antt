pub mod Overlay
pub mod Filling
pub mod Answers
pub mod Finding
pub mod Tests
pub mod Grids
pub mod Rows
pub mod Only
