pub mod Rebuilt
pub mod Deep
