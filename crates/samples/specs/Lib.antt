pub mod Dumps
pub mod Rebuilds
pub mod Scripts
pub mod Deep
