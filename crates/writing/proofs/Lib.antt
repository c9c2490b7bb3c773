pub mod Writing
pub mod Digits
pub mod Values
pub mod ReadBack
