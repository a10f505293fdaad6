pub mod Heaps
pub mod Exact
