pub mod Acceptable
pub mod ClaimWords
pub mod PlanOrder
pub mod Promised
pub mod Theorems
pub mod Weighing
