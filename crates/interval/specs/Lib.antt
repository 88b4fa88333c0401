pub mod Demand
pub mod Kinds
