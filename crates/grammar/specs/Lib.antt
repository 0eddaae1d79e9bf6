-- What the readers of terms promise, over the model's readers.
pub mod Items
pub mod Found
pub mod Places
pub mod Props
