pub mod Jobs
pub mod Least
pub mod Running
pub mod Groups
pub mod Book
pub mod Block
pub mod Blocks
pub mod Spending
