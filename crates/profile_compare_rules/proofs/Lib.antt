pub mod Values
pub mod Differences
pub mod Theorems
pub mod Refuted
