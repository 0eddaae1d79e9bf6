-- Proofs over the readings of leaves, expressions and schemas.
pub mod Leaves
pub mod Expressions
pub mod Schemas
