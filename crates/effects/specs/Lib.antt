pub mod Bounded
pub mod Effects
pub mod Plans
pub mod Readable
pub mod Tokens
