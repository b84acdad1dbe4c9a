pub mod LoadQueue
pub mod QueueStep
pub mod Slips
pub mod LoadRun
pub mod Merge
