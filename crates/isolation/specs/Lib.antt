pub mod Maps
pub mod Worked
