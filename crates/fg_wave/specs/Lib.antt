pub mod Cutting
pub mod Telling
pub mod Waves
pub mod OneMessageEach
