pub mod Runs
pub mod Flushes
pub mod Inside
pub mod Lines
pub mod Exprs
pub mod Tasks
pub mod Follows
pub mod Last
