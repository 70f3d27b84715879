pub mod Commands
pub mod State
