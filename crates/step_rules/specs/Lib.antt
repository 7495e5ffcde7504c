pub mod Derives
pub mod Lists
pub mod Models
pub mod Promises
pub mod Cases
