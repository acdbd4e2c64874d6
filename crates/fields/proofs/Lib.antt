pub mod SizeLaws
pub mod ReachLaws
pub mod RasrLaws
pub mod SaysLaws
pub mod Determined
pub mod Worked
