pub mod Forms
pub mod Pieces
