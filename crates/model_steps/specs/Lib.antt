pub mod Commands
pub mod Limits
