pub mod Answers
pub mod Feed
pub mod Line
pub mod Lines
