pub mod Meeting
pub mod Entries
pub mod Bare
pub mod Taking
pub mod Following
