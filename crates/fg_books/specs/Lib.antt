pub mod Shares
pub mod Rules
