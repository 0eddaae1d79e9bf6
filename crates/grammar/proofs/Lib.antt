-- One step of each reader at the places that the code knows.
pub mod Steps
