pub mod Agreement
pub mod Beyond
pub mod Cases
pub mod Readings
pub mod Requests
