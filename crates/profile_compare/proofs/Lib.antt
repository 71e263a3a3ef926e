pub mod Merging
pub mod Left
pub mod Listing
pub mod Outcomes
