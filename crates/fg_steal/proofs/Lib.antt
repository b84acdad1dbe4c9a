pub mod Totals
pub mod Times
pub mod AllBlocks
pub mod TwoRuns
pub mod Spent
pub mod Steps
pub mod Whole
pub mod Popped
