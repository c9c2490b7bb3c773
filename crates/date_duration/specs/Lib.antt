pub mod Paper
pub mod Proposal
