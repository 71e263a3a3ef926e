pub mod Conformance
pub mod BothEnds
pub mod Undisturbed
pub mod Gate
pub mod SetAll
