pub mod Differences
pub mod Instants
pub mod Moments
pub mod Roundings
pub mod Theorems
pub mod Adjusted
