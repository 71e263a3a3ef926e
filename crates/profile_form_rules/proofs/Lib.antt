pub mod Records
pub mod Profiles
pub mod Judging
pub mod Theorems
pub mod Refuted
