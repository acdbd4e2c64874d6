pub mod BackLaws
pub mod ChoiceLaws
pub mod Determined
pub mod FilledLaws
pub mod FormLaws
pub mod GatherLaws
pub mod Worked
