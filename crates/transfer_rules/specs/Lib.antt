pub mod Limits
pub mod Fragment
pub mod Transfer
pub mod Conforming
pub mod Exchange
pub mod Calls
pub mod Demand3
pub mod Coverage
