pub mod Sound
pub mod Overlap
pub mod List
pub mod Worked
