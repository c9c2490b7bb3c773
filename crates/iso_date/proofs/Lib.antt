pub mod Answers
pub mod Dates
pub mod Months
pub mod Tables
pub mod Theorems
pub mod Years
