pub mod JoinedLemmas
pub mod PushLemmas
pub mod WalkLemmas
pub mod ReadLemmas
pub mod DirectionLemmas
pub mod IndexLemmas
