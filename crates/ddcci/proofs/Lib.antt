pub mod Households
pub mod Follow
pub mod Refuted
