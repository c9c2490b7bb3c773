pub mod Table
pub mod Ready
pub mod Readings
