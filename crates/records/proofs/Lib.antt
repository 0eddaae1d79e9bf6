-- Laws of records at their places.
pub mod Steps
pub mod Apart
pub mod Keys
pub mod Places
pub mod Walks
pub mod Items
