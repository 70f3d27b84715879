pub mod Changed
pub mod Commands
pub mod There
