-- What a reader must believe, third layer of three: what each call comes to for all arguments, the statement of demand 3, and that of what comes
-- once. Over `meaning`, whose Lib.antt says how comments name the places of document 01, and `format`.
pub mod Answers
pub mod Calls
pub mod Lasting
pub mod ComesOnce
