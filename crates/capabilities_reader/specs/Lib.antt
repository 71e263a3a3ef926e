pub mod Filler
pub mod Lent
