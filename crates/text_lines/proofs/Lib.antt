pub mod Feeding
pub mod Gathering
pub mod Good
pub mod Noting
pub mod Stream
