pub mod Claims
pub mod Once
pub mod Run
pub mod Seat
