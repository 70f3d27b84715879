pub mod ByHistory
pub mod Cases
pub mod Choice
pub mod Claims
pub mod Closing
pub mod Delivered
pub mod Such
