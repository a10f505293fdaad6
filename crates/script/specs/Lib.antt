pub mod Syntax
pub mod Literals
pub mod Items
pub mod Texts
