pub mod Determined
pub mod FoundLaws
pub mod GivenLaws
pub mod StoreLaws
pub mod WordsLaws
pub mod Worked
