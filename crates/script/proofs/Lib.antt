pub mod Values
pub mod Splitting
