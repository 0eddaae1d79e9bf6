-- Bounds on what is counted, and the split of the answers of the four functions.
pub mod Values
pub mod Split
