pub mod Refusals
pub mod Rules
pub mod Runs
pub mod Texts
