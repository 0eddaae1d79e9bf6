-- Proofs over the programs' common functions.
mod RowReading
mod InputReading
