pub mod Play
pub mod Off
pub mod Cut
pub mod Machine
