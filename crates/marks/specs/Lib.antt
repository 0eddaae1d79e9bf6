-- By what the records that correlate with a subject are looked up.
pub mod Marks
