pub mod Listed
pub mod Octets
pub mod Sound
