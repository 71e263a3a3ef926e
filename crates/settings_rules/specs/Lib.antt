pub mod Settings
pub mod Results
pub mod Entries
pub mod Statements
pub mod Operations
pub mod Values
