pub mod Claims
pub mod Coordinators
pub mod Longest
pub mod Processes
pub mod Report
