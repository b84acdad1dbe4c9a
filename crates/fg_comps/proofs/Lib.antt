pub mod Counts
pub mod Peeled
pub mod Wccs
