pub mod Profile
pub mod Statements
pub mod Operations
