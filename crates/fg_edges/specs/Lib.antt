pub mod Segment
pub mod Segments
pub mod Parts
