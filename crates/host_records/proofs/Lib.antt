pub mod Cases
pub mod LowFirst
pub mod ReadLaws
pub mod ReadableLaws
pub mod ReadingLaws
pub mod RecordLaws
pub mod RecordReadings
pub mod Theorems
