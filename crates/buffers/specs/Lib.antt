pub mod Buffers
pub mod Statements
