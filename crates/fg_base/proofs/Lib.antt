pub mod FaultLemmas
pub mod GrowthLemmas
pub mod ToldLemmas
