pub mod Sums
pub mod Keeping
pub mod Postings
pub mod Held
