pub mod Elements
pub mod ProcessTexts
pub mod WithoutTurns
