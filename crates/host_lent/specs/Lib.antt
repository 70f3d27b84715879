pub mod Lent
pub mod LimitCases
pub mod Summary
