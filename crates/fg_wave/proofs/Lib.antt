pub mod CuttingLaws
pub mod TellingLaws
pub mod WavesLaws
pub mod WaveLaws
