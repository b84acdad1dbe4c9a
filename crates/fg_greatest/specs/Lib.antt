pub mod Greatest
pub mod GreatestLaws
pub mod Reaching
