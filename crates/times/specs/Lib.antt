-- Which times of its clauses a stage needs.
pub mod NeededTimes
