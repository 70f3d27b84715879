pub mod Claims
pub mod Program
pub mod Ran
pub mod Steps
