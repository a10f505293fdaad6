pub mod Stands
pub mod Rebuilds
pub mod Cases
pub mod Same
