pub mod Making
pub mod Theorems
