pub mod Answers
pub mod Cases
pub mod Claims
pub mod Kinds
pub mod Step
