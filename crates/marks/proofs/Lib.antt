-- Laws of marks.
pub mod Marked
pub mod Scans
