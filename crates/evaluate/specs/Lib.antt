-- What evaluation promises, over the model's meaning.
pub mod Seen
pub mod Asked
