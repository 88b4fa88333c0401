pub mod Promised
pub mod Theorems
