pub mod PlayLaws
pub mod CutLaws
pub mod SwitchLaws
pub mod MachineLaws
pub mod Worked
