pub mod BallotLaws
pub mod ChoiceLaws
pub mod ClosingLaws
pub mod TextLaws
pub mod UpLaws
