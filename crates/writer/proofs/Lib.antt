pub mod Laying
pub mod Parts
pub mod Promised
pub mod Theorems
