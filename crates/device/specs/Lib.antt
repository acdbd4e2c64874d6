pub mod Registers
pub mod RegisterWrite
pub mod Permission
pub mod Packing
pub mod Decision
