pub mod QueueLaws
pub mod LearnLaws
