pub mod Visits
pub mod Names
pub mod Builds
pub mod Lates
pub mod Lines
