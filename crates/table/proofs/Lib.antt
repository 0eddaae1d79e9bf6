-- Laws of a call's table.
pub mod TableLaws
