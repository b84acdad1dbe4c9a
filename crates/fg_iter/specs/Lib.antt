pub mod Lists
pub mod Start
pub mod Crew
pub mod Marked
pub mod Engine
pub mod DoneLaws
pub mod Ring
pub mod Running
