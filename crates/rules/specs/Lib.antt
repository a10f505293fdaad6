pub mod Judging
pub mod Texts
pub mod Cells
pub mod Objects
pub mod Parts
pub mod Verdicts
