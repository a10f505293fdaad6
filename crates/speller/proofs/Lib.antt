pub mod Floats
pub mod Decimals
pub mod Wholes
pub mod Sizes
pub mod Examples
