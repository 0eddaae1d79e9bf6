-- What the parts of calls 4 and 5 promise, over the model's rows and entries.
pub mod Shown
pub mod Wanted
