pub mod PartMap
