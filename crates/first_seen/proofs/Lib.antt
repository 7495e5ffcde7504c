pub mod Places
pub mod Growing
