pub mod Calls
pub mod Messages
pub mod Last
pub mod Theorems
pub mod Refuted
