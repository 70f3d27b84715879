pub mod Asks
pub mod Plan
pub mod Refusal
