pub mod Adequate
pub mod Makes
pub mod Pending
pub mod Good
pub mod Depths
