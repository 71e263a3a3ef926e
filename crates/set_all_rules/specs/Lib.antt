pub mod Limits
pub mod SetAll
pub mod Statements
