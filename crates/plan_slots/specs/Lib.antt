pub mod Numbers
pub mod Plan
pub mod Slots
pub mod Steps
