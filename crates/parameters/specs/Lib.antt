pub mod Kinds
pub mod Meaning
pub mod Letters
pub mod Parameters
