pub mod Continued
pub mod FileLines
pub mod LineTexts
