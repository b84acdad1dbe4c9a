pub mod Faults
pub mod Options
pub mod Refusal
pub mod Told
