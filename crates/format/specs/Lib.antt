-- What a reader must believe, second layer of three: how terms, records and rows stand in bytes, and the refusals that bytes decide. Over
-- `meaning`, whose Lib.antt says how comments name the places of document 01.
pub mod Bytes
pub mod Grammar
pub mod Fields
pub mod Records
