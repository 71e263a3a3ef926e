pub mod Records
pub mod Form
pub mod Statements
