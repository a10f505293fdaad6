pub mod Lists
pub mod Visits
pub mod Orders
pub mod Edges
pub mod Ranges
pub mod Stand
