-- Laws that the proofs of counting cite.
pub mod Counted
