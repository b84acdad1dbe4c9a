pub mod RunLemmas
pub mod RestLemmas
pub mod MergeLemmas
pub mod TakenLemmas
