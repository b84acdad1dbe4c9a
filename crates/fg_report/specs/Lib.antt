pub mod Lines
pub mod Refusals
pub mod ReportWatch
pub mod Sum
pub mod Values
