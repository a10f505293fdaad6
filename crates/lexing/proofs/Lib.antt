pub mod Utf8
pub mod Lexes
pub mod Numbers
pub mod Literals
pub mod Fits
pub mod Read
pub mod Statements
pub mod Lexed
