-- What the contracts of the programs' common functions share.
pub mod Rows
