pub mod Output
pub mod Accepts
