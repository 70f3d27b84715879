pub mod Answers
pub mod Carried
pub mod Meaning
