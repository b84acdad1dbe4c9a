pub mod Held
pub mod Label
pub mod Striping
