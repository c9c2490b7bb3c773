pub mod Claims
pub mod Inner
pub mod Paper
pub mod Proposal
pub mod Rules
pub mod Tries
