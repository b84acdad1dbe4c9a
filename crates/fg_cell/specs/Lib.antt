pub mod Lent
pub mod Pages
