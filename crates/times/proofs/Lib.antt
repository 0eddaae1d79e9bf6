-- Proofs over the times of clauses.
pub mod Needs
pub mod StageLaws
