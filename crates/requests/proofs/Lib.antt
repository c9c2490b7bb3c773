pub mod Laws
pub mod Theorems
