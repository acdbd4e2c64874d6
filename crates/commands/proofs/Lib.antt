pub mod AmongLaws
pub mod Determined
pub mod GivenLaws
pub mod LineLaws
pub mod MadeLaws
pub mod ReadingLaws
pub mod ToldLaws
pub mod Worked
