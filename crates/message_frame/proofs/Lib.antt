pub mod Parts
pub mod Fields
pub mod Meanings
pub mod Verdicts
