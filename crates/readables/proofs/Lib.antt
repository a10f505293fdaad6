pub mod Places
pub mod Spelled
pub mod Writes
pub mod Bytes
pub mod Exprs
pub mod Follows
pub mod Readables
