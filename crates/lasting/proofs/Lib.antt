-- Demand 3 in force, and calls that meet its premises.
pub mod InForce
pub mod Instance
