pub mod Ceilings
pub mod PartMapLaws
