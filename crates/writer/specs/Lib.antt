pub mod Laid
pub mod Promise
