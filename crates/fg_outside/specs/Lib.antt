pub mod Drives
pub mod Log
pub mod Pages
