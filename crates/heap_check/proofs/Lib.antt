pub mod Held
pub mod Kept
