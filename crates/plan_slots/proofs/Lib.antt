pub mod Judging
pub mod Keeping
pub mod SlotOrder
