pub mod Values
pub mod Points
pub mod Orders
pub mod Laws
pub mod Examples
