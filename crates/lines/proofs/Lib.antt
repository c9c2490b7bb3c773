pub mod Words
pub mod Numbers
pub mod Within
pub mod Pinned
