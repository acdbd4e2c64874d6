pub mod Pick
pub mod Refuse
pub mod Search
pub mod Rows
pub mod Power
pub mod Cases
pub mod Listed
