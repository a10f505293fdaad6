pub mod Ends
pub mod Loans
pub mod Owes
pub mod Puts
pub mod Runs
pub mod Tallies
