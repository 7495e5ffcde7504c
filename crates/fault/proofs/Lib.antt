pub mod Exactly
pub mod Trying
