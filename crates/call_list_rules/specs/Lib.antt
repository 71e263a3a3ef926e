pub mod Limits
pub mod CallList
pub mod Statements
