pub mod Acceptors
pub mod Agreeing
pub mod Compute
pub mod Processes
pub mod PutBack
pub mod Tables
pub mod Unchanged
