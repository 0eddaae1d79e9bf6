-- Laws that the proofs of calls 4 and 5 cite.
pub mod Walks
pub mod RowSteps
pub mod Most
pub mod Entries
pub mod Pages
pub mod Parties
pub mod Reports
pub mod Sought
