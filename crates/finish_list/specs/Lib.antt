pub mod Found
pub mod Longest
pub mod Text
