pub mod Harvesting
pub mod Records
pub mod Theorems
pub mod Yielding
