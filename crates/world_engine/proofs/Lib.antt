pub mod Room
pub mod Stepping
pub mod PlaceLaws
pub mod SendLaws
pub mod StoreLaws
pub mod CommandLaws
