mod EngineRows
mod FoundLemmas
mod GrammarLemmas
mod JobLaws
mod NumberLemmas
mod Rows
