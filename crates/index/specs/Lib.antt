-- An index of a log: chains of the words of its records, and what is found by them.
pub mod Words
pub mod Chains
pub mod Asked
pub mod Walk
pub mod Props
