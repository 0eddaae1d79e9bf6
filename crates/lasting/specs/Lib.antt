-- Demand 3 for calls 3 and 4 as they were made. Demand is the statement for calls of any kind; Made says which calls the code makes, and those of `service`, which the exports call.
pub mod Demand
pub mod Made
