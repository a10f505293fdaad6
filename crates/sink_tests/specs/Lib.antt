pub mod Repeated
pub mod Twice
