pub mod Spread
pub mod SpreadLaws
pub mod Bfs
pub mod Sssp
pub mod LeastWalks
pub mod Walks
