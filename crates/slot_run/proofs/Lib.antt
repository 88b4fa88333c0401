pub mod Asking
pub mod Promised
pub mod Running
pub mod Slots
pub mod Theorems
