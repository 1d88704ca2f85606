pub mod Pictures
pub mod Moves
pub mod Histories
pub mod Statements
pub mod Runs
pub mod Passes
