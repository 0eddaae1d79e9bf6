-- Laws of the index of a log.
pub mod Links
pub mod ChainLaws
pub mod Builds
pub mod Picked
pub mod Walks
pub mod Found
