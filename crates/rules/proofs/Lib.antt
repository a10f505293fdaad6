pub mod Judging
pub mod Sound
