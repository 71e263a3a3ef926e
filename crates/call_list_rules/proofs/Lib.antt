pub mod Among
pub mod First
pub mod Records
pub mod Answers
pub mod Searching
pub mod Theorems
pub mod Refuted
