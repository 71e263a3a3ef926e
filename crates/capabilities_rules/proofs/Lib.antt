-- The laws of the machine, and the theorems on the definitions.
pub mod Bytes
pub mod Laws
pub mod Whole
pub mod Walk
pub mod Parse
pub mod Acceptance
pub mod Unique
pub mod Prefixes
pub mod Refusals
pub mod Exactly
pub mod Words
pub mod Theorems
pub mod Demand2
pub mod Zeros
pub mod Refuted
pub mod RefutedZeros
