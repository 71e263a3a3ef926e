pub mod Puts
pub mod Theorems
pub mod Refuted
