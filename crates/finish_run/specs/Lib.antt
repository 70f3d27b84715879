pub mod Claims
pub mod Joined
pub mod Printed
pub mod Program
