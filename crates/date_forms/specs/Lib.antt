pub mod Grammar
pub mod Texts
pub mod Claims
