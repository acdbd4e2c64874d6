pub mod JournalLaws
pub mod Determined
pub mod Worked
