pub mod Readings
pub mod Verdicts
pub mod Starts
