-- What is proved of the functions of `service` holds of the exports.
pub mod Exported
