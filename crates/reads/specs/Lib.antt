pub mod Typed
pub mod Parts
