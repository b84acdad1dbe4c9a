pub mod Visits
pub mod Desk
pub mod Hand
pub mod Jobs
pub mod Beginning
pub mod Visiting
