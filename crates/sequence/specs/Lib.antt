pub mod Sequence
pub mod Worked
pub mod Starred
