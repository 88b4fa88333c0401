pub mod Run
pub mod Promise
pub mod Slots
pub mod Steps
