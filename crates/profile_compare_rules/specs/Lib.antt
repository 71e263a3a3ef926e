pub mod Compare
pub mod Statements
