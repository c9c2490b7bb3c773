pub mod Text
pub mod Wrote
