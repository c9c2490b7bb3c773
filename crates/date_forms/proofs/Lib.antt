pub mod Years
pub mod Texts
pub mod ReadBack
pub mod Shortest
pub mod OneKind
