pub mod Seen
pub mod Cleared
pub mod Sameness
