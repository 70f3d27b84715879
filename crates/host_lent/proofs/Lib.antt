pub mod LentLaws
pub mod LimitCases
pub mod RunningLaws
pub mod SummaryLaws
