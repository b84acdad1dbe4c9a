pub mod DriveLemmas
pub mod Room
