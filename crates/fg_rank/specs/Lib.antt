pub mod Rank
pub mod RankLaws
pub mod RankSums
