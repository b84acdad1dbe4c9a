pub mod Settles
pub mod Spread
pub mod SpreadStep
pub mod WalkLaws
