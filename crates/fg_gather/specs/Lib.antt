pub mod Arrivals
pub mod Deliver
pub mod Gather
pub mod Marks
