-- What the checks of terms promise, over the model's definitions.
pub mod Questions
