pub mod Each
pub mod Lengths
pub mod Texts
pub mod Theorems
pub mod PrintedLaws
pub mod WithoutTurns
