pub mod Inner
pub mod Follows
pub mod Within
pub mod Sums
pub mod Trees
pub mod Dues
pub mod Once
