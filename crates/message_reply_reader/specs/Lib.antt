pub mod Table
pub mod Outcome
pub mod Start
