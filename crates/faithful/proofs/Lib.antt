pub mod Short
pub mod Traces
pub mod Scripts
pub mod Lines
pub mod Main
pub mod Dumps
