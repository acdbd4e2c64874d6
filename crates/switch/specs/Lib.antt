pub mod Switch
pub mod Applied
