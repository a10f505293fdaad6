pub mod Traces
pub mod Theorem
