pub mod Answers
pub mod Entering
pub mod Meaning
pub mod Sessions
