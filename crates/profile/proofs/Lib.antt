pub mod Sets
pub mod Outputs
pub mod Loading
