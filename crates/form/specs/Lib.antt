pub mod Form
pub mod Filled
pub mod Gather
pub mod Choice
pub mod Worked
