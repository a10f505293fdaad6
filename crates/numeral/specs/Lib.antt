pub mod Words
pub mod Order
pub mod Digits
pub mod Numerals
