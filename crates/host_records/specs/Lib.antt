pub mod Cases
pub mod Claims
pub mod Numbers
pub mod Record
