pub mod Majority
pub mod Messages
pub mod Rules
