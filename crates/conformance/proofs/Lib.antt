pub mod Conformance
pub mod BothEnds
pub mod Undisturbed
pub mod Gate
pub mod SetAll
pub mod Refuted
pub mod RefutedSetAll
