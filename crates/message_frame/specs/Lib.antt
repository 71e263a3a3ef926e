pub mod Shape
pub mod Parts
pub mod Verdict
pub mod Meaning
