-- What the proofs of the functions, of the checker and of the filler use.
pub mod Prefix
pub mod Runs
