pub mod Sets
pub mod Core
pub mod Grow
pub mod Local
pub mod Sequence
pub mod Counted
