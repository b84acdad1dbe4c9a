pub mod Degrees
pub mod DegreesParts
pub mod Direction
pub mod DirectionFault
pub mod ImageIndex
