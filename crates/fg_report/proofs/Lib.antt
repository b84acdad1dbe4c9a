pub mod FlushLemmas
mod LineLemmas
mod ValueLemmas
