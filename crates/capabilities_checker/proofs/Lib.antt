-- What the proof of the checker of a group uses.
pub mod Checker
