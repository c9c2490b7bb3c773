pub mod Paper
pub mod Claims
