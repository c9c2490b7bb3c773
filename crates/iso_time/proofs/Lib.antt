pub mod Checks
pub mod Rounding
pub mod Theorems
pub mod Times
