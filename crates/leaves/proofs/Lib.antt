pub mod Wholes
pub mod Numbers
pub mod Lists
pub mod Flags
pub mod Constructs
pub mod Fills
