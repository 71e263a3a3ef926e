pub mod Outputs
pub mod Accepts
pub mod Refuted
