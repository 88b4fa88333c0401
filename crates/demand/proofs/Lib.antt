pub mod Findings
pub mod Loops
pub mod Shrinking
pub mod Theorems
