pub mod Claims
pub mod Printed
pub mod Report
pub mod Within
