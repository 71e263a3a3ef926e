pub mod Send
pub mod Pending
