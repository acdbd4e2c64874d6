pub mod Ascii
pub mod Digits
pub mod Put
pub mod Read
pub mod Line
pub mod Worked
