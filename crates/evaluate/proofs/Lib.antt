-- Laws that the proofs of evaluation cite.
pub mod Weights
pub mod Happens
pub mod Scan
pub mod Leaves
pub mod Expressions
