pub mod Cases
pub mod Bits
pub mod Counting
pub mod Members
pub mod Theorems
