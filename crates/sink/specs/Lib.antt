pub mod Faults
pub mod Meanings
pub mod Puts
pub mod Sinks
