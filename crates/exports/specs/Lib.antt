pub mod Words
pub mod Many
