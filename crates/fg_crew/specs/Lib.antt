pub mod Claimed
pub mod Wave
pub mod Slots
pub mod OneRunEach
