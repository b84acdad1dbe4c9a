pub mod Components
pub mod Core
pub mod CoreLaws
pub mod CoreNumbers
pub mod Wcc
pub mod WccLaws
