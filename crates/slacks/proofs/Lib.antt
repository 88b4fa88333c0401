pub mod Least
pub mod SlackTests
