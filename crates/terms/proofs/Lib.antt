-- Laws that the proofs of the checks cite.
pub mod Steps
pub mod Clauses
pub mod Faults
pub mod ClauseLaws
