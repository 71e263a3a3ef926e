-- What the proofs of the filler of a group and of the whole filler use.
pub mod Filling
pub mod Lent
pub mod Stored
