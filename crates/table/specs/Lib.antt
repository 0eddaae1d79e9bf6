-- The table of a call: where it has what, and what it holds of the terms.
pub mod Table
