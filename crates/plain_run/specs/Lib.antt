pub mod Claims
pub mod Plain
pub mod Printed
pub mod Session
