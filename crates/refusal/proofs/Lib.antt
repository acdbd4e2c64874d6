pub mod NumberLaws
pub mod AnswerLaws
pub mod SaysLaws
pub mod Determined
