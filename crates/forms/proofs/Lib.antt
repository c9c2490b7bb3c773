pub mod Digits
pub mod Padded
pub mod Fractions
pub mod Shortest
