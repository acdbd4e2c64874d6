pub mod WritesLaws
pub mod SoundWrites
pub mod SaysLaws
pub mod Determined
pub mod Worked
