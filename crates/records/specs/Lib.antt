-- What is known of the records of a log, over the model's definitions, and what is left of a walk over them.
pub mod Holds
pub mod Walk
