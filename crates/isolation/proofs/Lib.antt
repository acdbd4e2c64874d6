pub mod MeetLaws
pub mod LoadLaws
pub mod AnswerLaws
pub mod DemandThree
pub mod MapLaws
pub mod Worked
pub mod SentenceLaws
