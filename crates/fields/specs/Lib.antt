-- What the decoding of fields promises, over the model's.
pub mod Decoded
