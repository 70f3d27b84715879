pub mod Add
pub mod Claims
pub mod Filled
pub mod Limited
pub mod Parts
pub mod Query
