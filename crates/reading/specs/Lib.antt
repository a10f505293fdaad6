pub mod Trees
pub mod Steps
pub mod Starts
pub mod Statements
