pub mod CommandLine
pub mod Grammar
pub mod Jobs
pub mod Options
pub mod Reading
pub mod Words
