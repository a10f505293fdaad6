pub mod Sound
pub mod Formed
pub mod Theorems
