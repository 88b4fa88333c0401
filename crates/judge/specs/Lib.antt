pub mod Evidence
pub mod Judge
pub mod Numbers
pub mod Promise
pub mod Stated
pub mod Steps
