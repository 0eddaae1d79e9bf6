-- What the contracts of the program's functions share.
pub mod Left
pub mod Lends
