pub mod Answers
pub mod Stores
pub mod Theorems
pub mod Operations
pub mod Values
pub mod Refuted
