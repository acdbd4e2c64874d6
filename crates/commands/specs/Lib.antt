pub mod Command
pub mod Made
pub mod Given
pub mod Obeyed
pub mod Reading
pub mod Worked
