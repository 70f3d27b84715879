pub mod Exchange
pub mod Files
pub mod Reading
pub mod Writing
